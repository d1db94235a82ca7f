pub mod EachAfterLemmas
pub mod CaseLemmas
pub mod NameOrder
pub mod NamedLemmas
