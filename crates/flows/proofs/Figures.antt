-- Figures of docs/RULES.md, section 11, computed from the definitions over a table of 64 places: what sends get one after the other, and what they leave.
use Prim.Native.Nat.{ℕ}
use mathlib.Core.Path.{◌≡◌, refl}
use mathlib.Core.Bool.{Bool, true, false}
use mathlib.Core.List.{List, [], ◌∷◌}
use lib.Count.{ones, ones_in}
use lib.ListN.{replicate}
use Rattle.std.specs.Prelude.{Err, None, Ok, Option, Result, Some}
use Rattle.octets.specs.Pick.{pick}
use Rattle.octets.specs.Find.{find}
use Rattle.mctp.specs.declared.Error.TheVariants.{InvalidInput, BadArgument, TagUnavailable}
use Rattle.stamp.specs.Stamp.{next}
use Rattle.flows.specs.Tags.{bits_of, free_tag_of, free_count}
use Rattle.flows.specs.Table.{no_flow, is_flow, flow_cookie, used_tags, new_flow, Table, insert_flow, with_tag, fresh_flow, fixed_flow, set_flow}
use Rattle.mctp.specs.declared.AppCookie.{AppCookie}
use Rattle.mctp.specs.declared.Error.{Error}
use Rattle.mctp.specs.declared.TagValue.{TagValue}

-- what a send asks the table for
pub record Ask : Type 0 where
  pub peer : ℕ
  pub wish : Option TagValue
  pub expires : Bool
  pub cookie : Option AppCookie

-- what sends get, and the table they leave
unfoldable pub grants : List Ask → Table → List (Result TagValue Error)
grants [] t = []
grants (a ∷ l) t =
    let r = set_flow (record { 0 = a.peer }) a.wish a.expires a.cookie t in
    r.granted ∷ grants l r.table

unfoldable pub left : List Ask → Table → Table
left [] t = t
left (a ∷ l) t = left l (set_flow (record { 0 = a.peer }) a.wish a.expires a.cookie t).table

abbrev pub places : ℕ → Table
places n = record { flows = replicate n no_flow; now = record { clock = 0; counter = 0 }; counter = 0 }

abbrev pub tag : ℕ → Result TagValue Error
tag n = Ok (record { 0 = n })

abbrev pub fresh : ℕ → Ask
fresh peer = record { peer = peer; wish = None; expires = true; cookie = None }

abbrev pub three : Bool → ℕ → Ask
three expires cookie = record { peer = 9; wish = Some (record { 0 = 3 }); expires = expires; cookie = Some (record { 0 = cookie }) }

-- ten sends with a fresh tag: nine to peer 9, one to peer 10
abbrev pub ten : List Ask
ten = fresh 9 ∷ fresh 9 ∷ fresh 9 ∷ fresh 9 ∷ fresh 9 ∷ fresh 9 ∷ fresh 9 ∷ fresh 9 ∷ fresh 9 ∷ fresh 10 ∷ []

-- the ninth is refused, and moves the counter all the same
pub fresh_tags_lem : grants ten (places 64) ≡ tag 1 ∷ tag 2 ∷ tag 3 ∷ tag 4 ∷ tag 5 ∷ tag 6 ∷ tag 7 ∷ tag 0 ∷ Err TagUnavailable ∷ tag 2 ∷ []
unfolding grants set_flow fresh_flow with_tag insert_flow new_flow is_flow free_tag_of bits_of find pick next
fresh_tags_lem = refl

-- it counts no event
pub fresh_events : (left ten (places 64)).now.counter ≡ 9
unfolding left set_flow fresh_flow with_tag insert_flow new_flow is_flow free_tag_of bits_of find pick next
fresh_events = refl

-- and leaves peer 10 seven tags
pub fresh_left : free_count (used_tags (record { 0 = 10 }) (left ten (places 64)).flows) ≡ 7
unfolding left set_flow fresh_flow with_tag insert_flow new_flow is_flow free_tag_of bits_of find pick next ones ones_in
fresh_left = refl

-- a full table refuses, and counts the event
pub full_table : grants (fresh 9 ∷ fresh 9 ∷ []) (places 1) ≡ tag 1 ∷ Err TagUnavailable ∷ []
unfolding grants set_flow fresh_flow with_tag insert_flow new_flow is_flow free_tag_of bits_of find pick next
full_table = refl

pub full_events : (left (fresh 9 ∷ fresh 9 ∷ []) (places 1)).now.counter ≡ 2
unfolding left set_flow fresh_flow with_tag insert_flow new_flow is_flow free_tag_of bits_of find pick next
full_events = refl

-- a fixed tag above 7 is refused, with nothing changed
abbrev pub eight : Ask
eight = record { peer = 9; wish = Some (record { 0 = 8 }); expires = true; cookie = None }

pub fixed_high : grants (eight ∷ []) (places 64) ≡ Err InvalidInput ∷ []
unfolding grants set_flow pick
fixed_high = refl

pub high_stays : left (eight ∷ []) (places 64) ≡ places 64
unfolding left set_flow pick
high_stays = refl

-- a fixed tag that stands with an expiry is refused
pub fixed_expiry : grants (three true 7 ∷ three true 8 ∷ []) (places 64) ≡ tag 3 ∷ Err BadArgument ∷ []
unfolding grants set_flow fixed_flow insert_flow new_flow is_flow find pick next
fixed_expiry = refl

-- one that stands without expiry is used again, and keeps its first cookie
pub fixed_again : grants (three false 7 ∷ three false 8 ∷ []) (places 64) ≡ tag 3 ∷ tag 3 ∷ []
unfolding grants set_flow fixed_flow insert_flow new_flow is_flow find pick next
fixed_again = refl

pub first_cookie : flow_cookie (record { 0 = 9 }) (record { 0 = 3 }) (left (three false 7 ∷ three false 8 ∷ []) (places 64)).flows ≡ Some (record { 0 = 7 })
unfolding left set_flow fixed_flow insert_flow new_flow is_flow find pick next
first_cookie = refl
