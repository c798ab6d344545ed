mod GuessLemmas
