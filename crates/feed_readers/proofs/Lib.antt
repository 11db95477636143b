mod ReaderSteps
mod GroupsStandReady
