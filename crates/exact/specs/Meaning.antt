-- What a reader must believe, and nothing else: definitions written from docs/SCOPE.md and the published papers that it names.
pub mod Number
pub mod Matrix
pub mod Rotation
pub mod Word
pub mod Triple
pub mod Normal
pub mod Cheapest
pub mod Clifford
pub mod Limits
pub mod Endings
pub mod Record
pub mod Text
pub mod Outcome
pub mod Handed
pub mod Lent
pub mod Refusals
