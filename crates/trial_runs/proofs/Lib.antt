mod Checking
mod TooManyColumns
mod AnsweredSubscription
mod HostileRuns
