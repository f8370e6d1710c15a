-- What an update's first number is, and that a clock that is not earlier is taken.
pub mod Times
