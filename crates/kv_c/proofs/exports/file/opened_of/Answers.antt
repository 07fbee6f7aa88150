use Rattle.std.proofs.Common.{List, ℕ, [], refl, sym, ◌∙◌, subst, append-nil}
use Rattle.kv_c.specs.Making.{ShowDamage}
use Rattle.kv_c.specs.Lending.{lends, never_fails}
use Rattle.kv_c.proofs.Refusing.{configured_or}
use Rattle.kv_c.proofs.Reopened.{lends_all}
use Rattle.kv_c.proofs.exports.file.opened_of.Goals as goal
use Rattle.kv_durable.specs.Files.{Reads}
use Rattle.kv_durable.specs.Openings.{IsReopenedOn}
use Rattle.kv_journal.specs.Header.{BeginsWith}

pub returns-in-Ok-clause-ok : goal.returns-in-Ok-clause-ok
returns-in-Ok-clause-ok c =
    let o = c.in-Ok in
    let bytes = c.args.bytes.now in
    let fresh = λ (kept : List ℕ) (loose : List ℕ). lends_all c.of.result c.in_ok-found.found bytes kept loose c.of.ensures.0 c.of.ensures.1 c.in_ok-found.ensures.items in
    record {
      sync = o.ensures.sync ∙ c.sync_of.ensures;
      new = λ none. (o.ensures.new refl (fresh [] [] none)).1;
      reopened = λ some.
          subst (λ (bs : List ℕ). IsReopenedOn lends never_fails c.args.config.now bs o.opened.durable o.opened.dropped o.opened.checkpointed) (append-nil bytes)
          (o.ensures.reopened refl bytes [] (fresh bytes [] (sym (append-nil bytes))) (λ none. some (sym (append-nil bytes) ∙ none)));
    }

pub returns-in-Err-clause-err : goal.returns-in-Err-clause-err
returns-in-Err-clause-err c = λ x is other. configured_or x c.args.config.now (c.in-Err.ensures.refused x is) other

pub returns-in-Err-clause-damaged : goal.returns-in-Err-clause-damaged
unfolding ShowDamage
returns-in-Err-clause-damaged c = λ is base other entries rest own reads.
    let bytes = c.args.bytes.now in
    c.in-Err.ensures.damaged is bytes [] (lends_all c.of.result c.in_ok-found.found bytes bytes [] c.of.ensures.0 c.of.ensures.1 c.in_ok-found.ensures.items (sym (append-nil bytes))) base other entries rest own
    (subst (λ (bs : List ℕ). Reads base bs other entries rest) (sym (append-nil bytes)) reads)

pub returns-in-Err-clause-other : goal.returns-in-Err-clause-other
returns-in-Err-clause-other c = λ is.
    let bytes = c.args.bytes.now in
    let there = c.in-Err.ensures.other is bytes [] (lends_all c.of.result c.in_ok-found.found bytes bytes [] c.of.ensures.0 c.of.ensures.1 c.in_ok-found.ensures.items (sym (append-nil bytes))) in
    (there.0, there.1, there.2, subst (λ (bs : List ℕ). BeginsWith bs there.0 there.1 there.2) (append-nil bytes) there.3, there.4)
