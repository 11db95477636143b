mod StepsOnRounds
mod StreamsOnRounds
mod GroupsTakenIn
mod RoundsEnd
