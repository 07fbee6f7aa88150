use Rattle.std.proofs.Common.{◌≡◌, List, map, ap, ◌∙◌, inr, subst, refl, cond, codes, ◌∷◌, ◌++◌, []}
use Rattle.std.proofs.lemmas.Result.{on_err_weaker, on_ok_weaker}
use Rattle.kv_model.specs.Acts.{Act, Write}
use Rattle.kv_model.specs.Compaction.{stored_writes}
use Rattle.kv_store.specs.Standing.{StandsFor}
use Rattle.kv_replay.proofs.Progress.{on_err}
use Rattle.kv_durable_script.specs.Dumps.{lines_text}
use Rattle.kv_durable_script.proofs.StoredLines.{all_went, is_stored_text, part_went, stopped_before, waits_still, whole_of}
use Rattle.kv_durable_script.proofs.stored.write_stored.Goals as goal

pub returns-clause-ok : goal.returns-clause-ok
returns-clause-ok g c =
    let version = c.args.version.now in
    let ws : List Write = map (λ f. f.1.now) c.deref.result.now in
    let stored : (acts : List Act) → StandsFor acts version → ws ≡ stored_writes version.config.history acts =
    λ acts s. ap (map (λ f. f.1.now)) c.deref.ensures.value ∙ c.in_ok-writes.ensures acts s in
    let ended = subst (λ b. c.push_seal.new.out.items ≡ c.pour_stored.new.out.items ++ lines_text (cond b (codes "seal" ∷ []) [])) (ap (λ s. s.sealed) c.status.ensures.value) c.in_ok-push_seal.ensures in
    on_ok_weaker c.write.result
    (λ went. (
      whole_of ws version.sealed,
      is_stored_text version ws version.sealed stored refl,
      all_went ws version.sealed _ _ _ c.new-out.ensures.items _ c.in_ok-pour_stored.ensures.ok _ _ _ ended c.deref-2.ensures.value went,
    ))
    c.write.ensures.ok

pub returns-clause-early : goal.returns-clause-early
returns-clause-early g c =
    let version = c.args.version.now in
    let ws : List Write = map (λ f. f.1.now) c.deref.result.now in
    let stored : (acts : List Act) → StandsFor acts version → ws ≡ stored_writes version.config.history acts =
    λ acts s. ap (map (λ f. f.1.now)) c.deref.ensures.value ∙ c.in_ok-writes.ensures acts s in
    let ended = subst (λ b. c.push_seal.new.out.items ≡ c.pour_stored.new.out.items ++ lines_text (cond b (codes "seal" ∷ []) [])) (ap (λ s. s.sealed) c.status.ensures.value) c.in_ok-push_seal.ensures in
    on_err_weaker c.write.result
    (λ part. inr (
      whole_of ws version.sealed,
      is_stored_text version ws version.sealed stored refl,
      part_went ws version.sealed _ _ _ c.new-out.ensures.items _ c.in_ok-pour_stored.ensures.ok _ _ _ ended c.deref-2.ensures.value part,
    ))
    c.write.ensures.err

pub returns-in_err-pour_stored-clause-early : goal.returns-in_err-pour_stored-clause-early
returns-in_err-pour_stored-clause-early g c =
    let version = c.args.version.now in
    let ws : List Write = map (λ f. f.1.now) c.deref.result.now in
    let stored : (acts : List Act) → StandsFor acts version → ws ≡ stored_writes version.config.history acts =
    λ acts s. ap (map (λ f. f.1.now)) c.deref.ensures.value ∙ c.in_ok-writes.ensures acts s in
    on_err c.from_residual-in_err-pour_stored.result (inr (
      whole_of ws version.sealed,
      is_stored_text version ws version.sealed stored refl,
      stopped_before ws version.sealed _ _ _ c.new-out.ensures.items c.in_err-pour_stored.ensures.early,
    ))

pub returns-in_err-push_seal-clause-early : goal.returns-in_err-push_seal-clause-early
returns-in_err-push_seal-clause-early g c =
    let version = c.args.version.now in
    let ws : List Write = map (λ f. f.1.now) c.deref.result.now in
    let stored : (acts : List Act) → StandsFor acts version → ws ≡ stored_writes version.config.history acts =
    λ acts s. ap (map (λ f. f.1.now)) c.deref.ensures.value ∙ c.in_ok-writes.ensures acts s in
    on_err c.from_residual-in_err-push_seal.result (inr (
      whole_of ws version.sealed,
      is_stored_text version ws version.sealed stored refl,
      waits_still ws version.sealed _ _ _ c.new-out.ensures.items _ c.in_ok-pour_stored.ensures.ok,
    ))
