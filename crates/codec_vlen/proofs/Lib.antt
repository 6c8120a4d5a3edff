pub mod TextSteps
pub mod VlenSteps
