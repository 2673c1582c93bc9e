mod Answered
mod Moved
