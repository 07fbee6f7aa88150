use Rattle.kv_store.proofs.Turned.{apart}
use Rattle.kv_store.proofs.laws.revisions_have_places_of_their_own.Goals as goal

pub returns : goal.returns
returns c = apart
