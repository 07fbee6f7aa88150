-- A cursor stays in reach for later versions.
use Rattle.kv_watch.proofs.Reaching.{in_reach_later}
use Rattle.kv_single.proofs.Representing.{GoesOnLater}

pub later : GoesOnLater
later began acts newer n base version next cursor at stands p same low ahead = in_reach_later n began acts newer base version next cursor at.place stands same p low ahead
