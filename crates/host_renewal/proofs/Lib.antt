mod FormerLemmas
