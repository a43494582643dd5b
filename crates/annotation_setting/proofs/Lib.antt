-- The lemma files of this folder.
mod AnnotatedLaws
mod ElementLaws
mod LikeLaws
mod LimitLaws
mod PartLaws
mod SetLaws
mod SpotLaws
