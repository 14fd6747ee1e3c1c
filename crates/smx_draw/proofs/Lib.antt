pub mod DrawingLemmas
pub mod PictureLemmas
