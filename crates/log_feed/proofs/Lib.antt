mod WordLaws
mod BytesLaws
mod ShapeLaws
mod GroupLaws
