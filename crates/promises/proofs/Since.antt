-- What one more packet makes of the packets taken since the newest opening one: nothing for another key; with SOM it begins a list of its own; otherwise it is
-- one more at the end.
use Prim.Native.Nat.{ℕ, ◌+◌, ◌%◌}
use mathlib.Core.Path.{◌≡◌, refl, sym, ap, ◌∙◌}
use mathlib.Core.Bool.{Bool, true, false, not}
use mathlib.Core.List.{List, [], ◌∷◌, ◌++◌, append_assoc, append-nil}
use lib.Dec.{eqb}
use borrow.Author.Tests.{eq-eqb}
use Rattle.octets.specs.Pick.{pick, pick_cases}
use Rattle.mctp.specs.declared.Key.{Key}
use Rattle.mctp.specs.Terms.{same_key}
use Rattle.fragment.specs.Cutting.{body_in}
use Rattle.promises.specs.Delivery.{Message, all_of}
use Rattle.promises.specs.History.{Taken, since, gathered, follows, numbered, Opens}
use Rattle.promises.proofs.Facts.{no_true, and_left, and_right, and_both}

module _ (K : Key) (t : Taken) (H : List Taken) where
  pub since_other : same_key t.header.key K ≡ false → since K (t ∷ H) ≡ since K H
  unfolding since pick
  since_other e = rw e

  pub since-opens : same_key t.header.key K ≡ true → t.header.som ≡ true → since K (t ∷ H) ≡ t ∷ []
  unfolding since pick
  since-opens e s = rw (e, s)

  pub since_more : same_key t.header.key K ≡ true → t.header.som ≡ false → since K (t ∷ H) ≡ since K H ++ (t ∷ [])
  unfolding since pick
  since_more e s = rw (e, s)

-- ---- one more at the end

pub gathered_snoc : (l : List Taken) (t : Taken) → gathered (l ++ (t ∷ [])) ≡ gathered l ++ body_in t.packet
unfolding gathered
gathered_snoc [] t = append-nil (body_in t.packet)
gathered_snoc (x ∷ l) t = ap (λ (r : List ℕ). body_in x.packet ++ r) (gathered_snoc l t) ∙ sym (append_assoc (body_in x.packet) (gathered l) (body_in t.packet))

-- the number that is due after a packet numbered n and then the packets l
abbrev due_after : ℕ → List Taken → ℕ
due_after n [] = (n + 1) % 4
due_after n (t ∷ l) = due_after t.header.seq l

abbrev pub due : List Taken → ℕ
due [] = 0
due (t ∷ l) = due_after t.header.seq l

after_snoc : (n : ℕ) (l : List Taken) (t : Taken) → due_after n (l ++ (t ∷ [])) ≡ (t.header.seq + 1) % 4
after_snoc n [] t = refl
after_snoc n (x ∷ l) t = after_snoc x.header.seq l t

pub due_snoc : (l : List Taken) (t : Taken) → due (l ++ (t ∷ [])) ≡ (t.header.seq + 1) % 4
due_snoc [] t = refl
due_snoc (x ∷ l) t = after_snoc x.header.seq l t

follows_snoc : (n : ℕ) (l : List Taken) (t : Taken) → follows n l ≡ true → t.header.som ≡ false → t.header.seq ≡ due_after n l → follows n (l ++ (t ∷ [])) ≡ true
unfolding follows
follows_snoc n [] t f s e = and_both (not t.header.som) _ (ap not s) (and_both (eqb t.header.seq _) true (eq-eqb t.header.seq _ e) refl)
follows_snoc n (x ∷ l) t f s e =
    let rest = follows x.header.seq l in
    let g = and_right (not x.header.som) _ f in
    and_both (not x.header.som) _ (and_left (not x.header.som) _ f) (and_both (eqb x.header.seq _) (follows x.header.seq (l ++ (t ∷ []))) (and_left (eqb x.header.seq _) rest g) (follows_snoc x.header.seq l t (and_right (eqb x.header.seq _) rest g) s e))

pub numbered_snoc : (l : List Taken) (t : Taken) → numbered l ≡ true → t.header.som ≡ false → t.header.seq ≡ due l → numbered (l ++ (t ∷ [])) ≡ true
unfolding numbered
numbered_snoc [] t f s e = absurd (no_true f)
numbered_snoc (x ∷ l) t f s e =
    rw (and_left x.header.som (follows x.header.seq l) f) (follows_snoc x.header.seq l t (and_right x.header.som (follows x.header.seq l) f) s e)

module _ (f : Taken → Bool) where
  pub all_snoc : (l : List Taken) (t : Taken) → all_of f (l ++ (t ∷ [])) ≡ true → (all_of f l ≡ true) × (f t ≡ true)
  all_snoc [] t e = (refl, and_left (f t) true e)
  all_snoc (x ∷ l) t e =
      let q = all_snoc l t (and_right (f x) (all_of f (l ++ (t ∷ []))) e) in
      (rw (and_left (f x) (all_of f (l ++ (t ∷ []))) e) q.0, q.1)

  pub snoc_all : (l : List Taken) (t : Taken) → all_of f l ≡ true → f t ≡ true → all_of f (l ++ (t ∷ [])) ≡ true
  snoc_all [] t a e = rw e
  snoc_all (x ∷ l) t a e = rw (and_left (f x) (all_of f l) a) (snoc_all l t (and_right (f x) (all_of f l) a) e)

  pub since_all : (K : Key) (H : List Taken) → all_of f H ≡ true → all_of f (since K H) ≡ true
  unfolding since
  since_all K [] a = refl
  since_all K (t ∷ H) a =
      let ih = since_all K H (and_right (f t) (all_of f H) a) in
      let e = and_left (f t) (all_of f H) a in
      pick_cases P (λ _. pick_cases P (λ _. rw e) (λ _. snoc_all (since K H) t ih e)) (λ _. ih)
    where
      P : List Taken → Type 0
      P l = all_of f l ≡ true

pub opens_snoc : (m : Message) (l : List Taken) (t : Taken) → Opens m l → Opens m (l ++ (t ∷ []))
opens_snoc m [] t o = absurd o
opens_snoc m (x ∷ l) t o = o

-- `Opens` looks at type, IC and cookie alone
pub opens_as : (m m' : Message) → m'.typ ≡ m.typ → m'.ic ≡ m.ic → m'.cookie ≡ m.cookie → (l : List Taken) → Opens m l → Opens m' l
opens_as m m' a b c [] o = absurd o
opens_as m m' a b c (t ∷ l) o = (o.0 ∙ (λ i. record { typ = sym a i; ic = sym b i }), c ∙ o.1)
