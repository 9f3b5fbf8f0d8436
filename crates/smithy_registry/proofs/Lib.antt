pub mod CodeLemmas
pub mod KeptLemmas
pub mod UnionLemmas
