mod AskLemmas
mod ActorAskLemmas
mod RootAskLemmas
