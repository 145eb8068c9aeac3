mod WatchLemmas
