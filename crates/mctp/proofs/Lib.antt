-- The laws that other crates cite.
pub mod Wire
pub mod RoundTrip
pub mod Keys
pub mod CookieLaws
pub mod Answers
