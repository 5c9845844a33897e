-- What the proofs of the functions share.
pub mod CodeLoop
pub mod CodePlain
pub mod CodeSteps
