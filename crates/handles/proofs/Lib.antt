-- What a search for the earliest message finds.
pub mod HandleLaws
