-- Two keys are the same exactly when `same_key` says so.
use mathlib.Core.Path.{◌≡◌, refl, sym}
use mathlib.Core.Bool.{Bool, true, false}
use borrow.Author.Tests.{eqb-true, eq-eqb}
use Rattle.octets.proofs.Bools.{false_true}
use Rattle.octets.specs.Pick.{pick}
use Rattle.mctp.specs.declared.Key.{Key}
use Rattle.mctp.specs.Terms.{same_key, same_bool, same_eid, same_tag}

pub same_bool_is : (a b : Bool) → same_bool a b ≡ true → a ≡ b
unfolding same_bool
same_bool_is true b e = sym e
same_bool_is false true e = false_true e
same_bool_is false false e = refl

same_bool_refl : (a : Bool) → same_bool a a ≡ true
unfolding same_bool
same_bool_refl true = refl
same_bool_refl false = refl

pub same_key_refl : (a : Key) → same_key a a ≡ true
unfolding same_key pick
same_key_refl a = rw (eq-eqb a.source.0 a.source.0 refl, eq-eqb a.dest.0 a.dest.0 refl, same_bool_refl a.owner, eq-eqb a.tag.0 a.tag.0 refl)

parts : (s d o t : Bool) → pick s (pick d (pick o t false) false) false ≡ true → (s ≡ true) × (d ≡ true) × (o ≡ true) × (t ≡ true)
unfolding pick
parts true true true true e = (refl, refl, refl, refl)
parts true true true false e = false_true e
parts true true false t e = false_true e
parts true false o t e = false_true e
parts false d o t e = false_true e

pub same_key_is : (a b : Key) → same_key a b ≡ true → a ≡ b
unfolding same_key
same_key_is a b e =
    let p = parts (same_eid a.source b.source) (same_eid a.dest b.dest) (same_bool a.owner b.owner) (same_tag a.tag b.tag) e in
    let s = eqb-true a.source.0 b.source.0 p.0 in
    let d = eqb-true a.dest.0 b.dest.0 p.1 in
    let o = same_bool_is a.owner b.owner p.2 in
    let t = eqb-true a.tag.0 b.tag.0 p.3 in
    λ i. record { source = record { 0 = s i }; dest = record { 0 = d i }; owner = o i; tag = record { 0 = t i } }
