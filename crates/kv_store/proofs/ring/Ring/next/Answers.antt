use Rattle.std.proofs.Common.{◌≡◌, List, [], ◌∷◌, ◌++◌, Ok, refl, sym, ap, ◌∙◌, subst}
use Rattle.kv_model.specs.Acceptance.{accept}
use Rattle.kv_model.specs.Acts.{Act, Write, Wrote}
use Rattle.kv_model.specs.Requests.{asked}
use Rattle.kv_store.specs.Standing.{StandsFor}
use Rattle.kv_store.specs.Stored.{Stored}
use Rattle.kv_store.specs.inside.Following.{IsAlike, Made}
use Rattle.kv_store.specs.inside.Next.{HasOneMore}
use Rattle.kv_store.proofs.Following.{more_alike}
use Rattle.kv_store.proofs.Standings.{stands_after}
use Rattle.kv_store.proofs.ring.Ring.next.Goals as goal

pub returns-clause-ok : goal.returns-clause-ok
returns-clause-ok c =
    let old : Stored = c.self.inside.version in
    let next : Stored = c.follow.new.self in
    let w : Write = c.in_ok-accepted.accepted.write in
    let same : c.in_ok-share.field-0.write ≡ w = ap (λ (m : Made). m.write) (c.in_ok-share.ensures ∙ c.in_ok-made.ensures) in
    let more : HasOneMore w c.in_ok-version.version next = subst (λ (v : Write). HasOneMore v c.in_ok-version.version next) same c.in_ok-follow.ensures.ok in
    let alike : IsAlike old c.in_ok-version.version = subst (λ (v : Stored). IsAlike v c.in_ok-version.version) (sym c.self.view_is) c.in_ok-version.ensures.alike in
    subst (λ (v : Stored). (acts : List Act) → StandsFor acts v → (w : Write) × ((accept v.config (asked c.args.request.now) acts ≡ Ok w) × StandsFor (acts ++ Wrote w ∷ []) next))
    c.self.view_is
    (λ acts s. stands_after acts old next (asked c.args.request.now) w old.last refl s (c.in_ok-accepted.ensures.ok acts s) c.in_ok-accepted.ensures.write c.in_ok-accepted.ensures.key (more_alike old c.in_ok-version.version alike w next more))
