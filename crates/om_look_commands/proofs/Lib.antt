mod LookLemmas
