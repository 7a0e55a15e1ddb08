mod NoRequest
mod Refused
mod Fetched
mod Opened
mod Answered
mod Told
mod Failing
