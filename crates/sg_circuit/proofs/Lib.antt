-- The lemma files of this folder.
pub mod SeenLaws
pub mod PinLaws
pub mod FanLaws
pub mod TimingLaws
pub mod PathLaws
