pub mod BushWeights
pub mod NodeWeights
pub mod ChainWeights
pub mod LinkWeights
pub mod TopLevelWeights
