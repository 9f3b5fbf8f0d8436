pub mod KindLemmas
pub mod NameLemmas
pub mod OnLiterals
pub mod PartsLemmas
