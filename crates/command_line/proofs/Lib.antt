-- for the words alone
mod WordLemmas
