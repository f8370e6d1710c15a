-- The definitions that the contracts of `rows` cite.
-- Words: rows of numbers read as records. Answers: what a fragment step leaves in the words that it is lent.
-- Leans on the records of `mctp`, `fragment` and `sending`.
pub mod Words
pub mod Answers
