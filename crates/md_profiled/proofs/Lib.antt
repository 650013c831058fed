mod MainLemmas
