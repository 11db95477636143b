pub mod UntilValue
