mod WordLaws
mod InputLaws
mod ValueLaws
