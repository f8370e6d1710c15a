-- An answer in numbers (docs/RULES.md 14): 0 with what else is told, or a refusal's number. Each call's answer has one definition of this kind, in the
-- crate of the call (`received_as`, `updated_as`, ..): the exported calls answer by it, and the promises speak of it.
-- Leans on `Terms` for the numbers of refusals.
use Rattle.std.specs.Prelude.{ℕ, Bool, true, false, List, [], ◌∷◌, replicate, Err, None, Ok, Option, Result, Some}
use Rattle.mctp.specs.declared.Error.{Error}
use Rattle.mctp.specs.Terms.{error_no}

pub data Answer : Type 0 where
  gives : List ℕ → Answer  -- 0, and these values
  refuses : ℕ → List ℕ → Answer  -- a refusal's number; the values are a fragment step's cookie, and none elsewhere

-- what a call answers, by the words of what it gives
abbrev pub answer_as : {A : Type 0} → (A → List ℕ) → Result A Error → Answer
answer_as words (Ok x) = gives (words x)
answer_as words (Err err) = refuses (error_no err) []

-- the words of what is found, or none
abbrev pub found_words : {A : Type 0} → (A → List ℕ) → Option A → List ℕ
found_words words None = []
found_words words (Some x) = words x

abbrev pub answer_no : Answer → ℕ
answer_no (gives values) = 0
answer_no (refuses n values) = n

abbrev pub answer_values : Answer → List ℕ
answer_values (gives values) = values
answer_values (refuses n values) = values

-- a row of k words that holds the values, or zeros where there are none
abbrev pub row_of : ℕ → List ℕ → List ℕ
row_of k [] = replicate k 0
row_of k (v ∷ values) = v ∷ values

-- a row of k words that is lent for the values, after the call: it holds them, or zeros where there are none; a refusal leaves it as it was
abbrev pub row_after : ℕ → Answer → List ℕ → List ℕ
row_after k (gives values) old = row_of k values
row_after k (refuses n values) old = old

-- yes is 1, no is 0
abbrev pub flag_word : Bool → ℕ
flag_word true = 1
flag_word false = 0
