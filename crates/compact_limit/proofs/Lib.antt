mod LeastLaws
mod LimitLaws
