pub mod WalkLemmas
pub mod SeenLemmas
pub mod ToldLemmas
pub mod AheadLemmas
