-- The terms of docs/RULES.md, section 1: EIDs, tags, keys, cookies, and the numbers of the refusals.
-- Two keys are the same where `same_key` says so.
-- Leans on `pick` alone.
use Rattle.std.specs.Prelude.{ℕ, Bool, true, false, not, ltb, eqb, Err, None, Ok, Option, Result, Some}
use Rattle.octets.specs.Pick.{pick}
use Rattle.mctp.specs.declared.Eid.{Eid}
use Rattle.mctp.specs.declared.TagValue.{TagValue}
use Rattle.mctp.specs.declared.Tag.{Tag}
use Rattle.mctp.specs.declared.Tag.TheVariants.{Owned, Unowned}
use Rattle.mctp.specs.declared.Error.{Error}
use Rattle.mctp.specs.declared.Error.TheVariants.{InvalidInput, NoSpace, BadArgument, TagUnavailable, Unreachable, PoolShort}
use Rattle.mctp.specs.declared.Key.{Key}
use Rattle.mctp.specs.declared.AppCookie.{AppCookie}

-- each refusal's number (rule 13)
abbrev pub error_no : Error → ℕ
error_no InvalidInput = 1
error_no NoSpace = 2
error_no BadArgument = 3
error_no TagUnavailable = 4
error_no Unreachable = 5
error_no PoolShort = 6

-- the EIDs that have a name (rule 1)
abbrev pub null_eid : Eid
null_eid = record { 0 = 0 }

abbrev pub any_eid : Eid
any_eid = record { 0 = 255 }

abbrev pub same_eid : Eid → Eid → Bool
same_eid a b = eqb a.0 b.0

-- 8 to 254 is a normal EID; any other number is InvalidInput
unfoldable pub normal_eid : ℕ → Result Eid Error
normal_eid n = pick (ltb n 8) (Err InvalidInput) (pick (ltb 254 n) (Err InvalidInput) (Ok (record { 0 = n })))

abbrev pub tag_of : Tag → TagValue
tag_of (Owned t) = t
tag_of (Unowned t) = t

abbrev pub is_owner : Tag → Bool
is_owner (Owned t) = true
is_owner (Unowned t) = false

-- the tag of a key that has this TO and this tag number
unfoldable pub tag_under : Bool → TagValue → Tag
tag_under owner tag = pick owner (Owned tag) (Unowned tag)

abbrev pub same_tag : TagValue → TagValue → Bool
same_tag a b = eqb a.0 b.0

unfoldable pub same_bool : Bool → Bool → Bool
same_bool true b = b
same_bool false b = not b

-- whether two keys are the same: source, destination, TO and tag all agree
unfoldable pub same_key : Key → Key → Bool
same_key a b =
    pick (same_eid a.source b.source)
    (pick (same_eid a.dest b.dest) (pick (same_bool a.owner b.owner) (same_tag a.tag b.tag) false) false)
    false

-- the key of a message from source to dest under a tag
abbrev pub key_under : Eid → Eid → Tag → Key
key_under source dest tag = record { source = source; dest = dest; owner = is_owner tag; tag = tag_of tag }

-- a cookie that may be absent, as two numbers
abbrev pub cookie_no : Option AppCookie → ℕ
cookie_no None = 0
cookie_no (Some c) = 1

abbrev pub cookie_value : Option AppCookie → ℕ
cookie_value None = 0
cookie_value (Some c) = c.0

unfoldable pub cookie_of : ℕ → ℕ → Option AppCookie
cookie_of n value = pick (eqb n 1) (Some (record { 0 = value })) None
