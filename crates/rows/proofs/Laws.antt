-- A fragmenter that a caller keeps as a row of numbers is the same when it is read back, and after a packet it is the next one.
use Prim.Native.Nat.{ℕ, ◌+◌, ◌%◌, ◌<◌}
use native.Mathlib.Omega.{arith}
use native.Mathlib.Nat.{mod-eq_of_lt}
use mathlib.Core.Path.{◌≡◌, refl}
use mathlib.Core.Bool.{Bool, true, false}
use mathlib.Core.List.{[], ◌∷◌}
use Rattle.std.specs.Prelude.{None, Option, Some}
use Rattle.octets.specs.Pick.{pick}
use Rattle.mctp.specs.declared.Tag.{Tag}
use Rattle.mctp.specs.declared.Tag.TheVariants.{Owned, Unowned}
use Rattle.mctp.specs.Terms.{tag_of, is_owner, tag_under, cookie_no, cookie_value}
use Rattle.fragment.specs.declared.Fragmenter.{Fragmenter}
use Rattle.mctp.specs.Answer.{gives, flag_word}
use Rattle.fragment.specs.Step.{advanced_by}
use Rattle.fragment.specs.declared.SendOutput.TheVariants.{Complete}
use Rattle.fragment.specs.Answers.{words_of, output_as}
use Rattle.rows.specs.Words.{word, is_yes, narrow, tag_from, cookie_from, advanced_row, fragmenter_of}
use Rattle.mctp.specs.declared.AppCookie.{AppCookie}

flag_back : (b : Bool) → is_yes (flag_word b) ≡ b
flag_back true = refl
flag_back false = refl

tag_back : (t : Tag) → (tag_of t).0 < 256 → tag_from (is_yes (flag_word (is_owner t))) (narrow (tag_of t).0) ≡ t
unfolding tag_under pick
tag_back (Owned t) h = rw (mod-eq_of_lt h)
tag_back (Unowned t) h = rw (mod-eq_of_lt h)

cookie_back : (k : Option AppCookie) → cookie_from (is_yes (cookie_no k)) (cookie_value k) ≡ k
cookie_back None = refl
cookie_back (Some v) = refl

-- the fragmenter read back from its own row is the same one
pub words_back : (f : Fragmenter) → f.src.0 < 256 → f.dest.0 < 256 → f.typ.0 < 256 → (tag_of f.tag).0 < 256 → f.seq < 256 → fragmenter_of (words_of f) ≡ f
words_back f s d t g q = λ i. record {
  src = record { 0 = mod-eq_of_lt s i };
  dest = record { 0 = mod-eq_of_lt d i };
  typ = record { 0 = mod-eq_of_lt t i };
  tag = tag_back f.tag g i;
  ic = record { 0 = flag_back f.ic.0 i };
  seq = mod-eq_of_lt q i;
  mtu = f.mtu;
  first = flag_back f.first i;
  done = flag_back f.done i;
  cookie = cookie_back f.cookie i;
  payload_used = f.payload_used;
}

-- the tag and the cookie that are answered with all sent stand in that row, at words 3 and 4, 10 and 11
pub complete_words : (f : Fragmenter)
    → output_as (Complete f.tag f.cookie) ≡ gives (0 ∷ word 3 (words_of f) ∷ word 4 (words_of f) ∷ word 10 (words_of f) ∷ word 11 (words_of f) ∷ [])
complete_words f = refl

-- and the row after a packet is read as the next fragmenter, whatever its words were
pub row_moves : (a b c d e f g h i j k l m n : ℕ) (eom : Bool)
    → fragmenter_of (advanced_row (advanced_by (fragmenter_of (a ∷ b ∷ c ∷ d ∷ e ∷ f ∷ g ∷ h ∷ i ∷ j ∷ k ∷ l ∷ m ∷ [])) n eom) (a ∷ b ∷ c ∷ d ∷ e ∷ f ∷ g ∷ h ∷ i ∷ j ∷ k ∷ l ∷ m ∷ []))
    ≡ advanced_by (fragmenter_of (a ∷ b ∷ c ∷ d ∷ e ∷ f ∷ g ∷ h ∷ i ∷ j ∷ k ∷ l ∷ m ∷ [])) n eom
row_moves a b c d e f g h i j k l m n eom =
    let r = fragmenter_of (a ∷ b ∷ c ∷ d ∷ e ∷ f ∷ g ∷ h ∷ i ∷ j ∷ k ∷ l ∷ m ∷ []) in
    let q : narrow ((g % 256 % 4 + 1) % 4) ≡ (g % 256 % 4 + 1) % 4 = omega arith in
    λ x. record {
      src = r.src;
      dest = r.dest;
      typ = r.typ;
      tag = r.tag;
      ic = r.ic;
      seq = q x;
      mtu = h;
      first = false;
      done = flag_back eom x;
      cookie = r.cookie;
      payload_used = m + n;
    }
