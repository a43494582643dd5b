-- The modules of this folder.
mod BlockLaws
mod CellLaws
mod DelayLaws
mod InstanceLaws
mod NameLaws
mod PageLaws
mod PlaceLaws
mod ScopeLaws
mod TextLaws
