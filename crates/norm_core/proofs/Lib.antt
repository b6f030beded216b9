-- for the runs alone
mod ProblemLemmas
mod InputLemmas
mod RunLemmas
