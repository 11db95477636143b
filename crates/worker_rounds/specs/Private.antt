pub mod OnRound
