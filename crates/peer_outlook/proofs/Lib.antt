pub mod OutlookLemmas
