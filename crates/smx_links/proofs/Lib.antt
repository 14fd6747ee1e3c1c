pub mod BitLemmas
pub mod LowerLemmas
pub mod MaskLemmas
pub mod IdLemmas
pub mod KeyLemmas
pub mod LinkTableLemmas
pub mod UpperLemmas
