mod AskedLaws
mod WantingLaws
mod EndLaws
mod LimitLaws
