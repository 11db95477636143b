mod ShownLaws
mod ToldLaws
