mod CellLaws
mod TextLaws
