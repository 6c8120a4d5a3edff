pub mod ArrayChainSteps
pub mod ChainSteps
pub mod InnerSteps
pub mod TrailerSteps
