mod AskedLemmas
mod Sending
