-- What is known of an answer where memory ran out, or the sink failed.
use Rattle.std.proofs.Common.{◌≡◌, true≢false, Result, Ok, Err, sym, ap, subst, ◌∙◌}
use Rattle.std.specs.Prelude.{⊤, IsErr, IfErr, IsErrOf, OnOk}
use Rattle.std.specs.Result.{IsErrAnd}
use Rattle.kv_keys.specs.declared.error.KvError.{KvError}
use Rattle.kv_keys.specs.declared.error.KvError.TheVariants.{OutOfMemory, WriteFault}
use Rattle.kv_replay.specs.Faults.{IsWriteOrMemory}

-- want of memory that is handed on
pub lacking : (result : Result ⊤ KvError) (e : KvError) → IsErr result → IsErrAnd result (λ x. x ≡ e) → e ≡ OutOfMemory → result ≡ Err OutOfMemory
lacking (Ok done) e bad is memory = absurd (true≢false (sym bad))
lacking (Err x) e bad is memory = ap Err (is ∙ memory)

pub lacking-ok : (P : Type 0) (result : Result ⊤ KvError) → result ≡ Err OutOfMemory → OnOk result P
lacking-ok P result is = subst (λ (r : Result ⊤ KvError). OnOk r P) (sym is) tt

pub lacking-write : {P : Type 0} (result : Result ⊤ KvError) → result ≡ Err OutOfMemory → IsErrOf result WriteFault → P
lacking-write {P} result is fault = absurd (let no : ⊥ = cc in no)

pub lacking-fault : (result : Result ⊤ KvError) → result ≡ Err OutOfMemory → IfErr result IsWriteOrMemory
lacking-fault result is = subst (λ (r : Result ⊤ KvError). IfErr r IsWriteOrMemory) (sym is) tt

-- a sink that fails has no other error
pub written-memory : {P : Type 0} (result : Result ⊤ KvError) → IfErr result (λ e. e ≡ WriteFault) → IsErrOf result OutOfMemory → P
written-memory {P} (Ok done) fault is = absurd (let no : ⊥ = cc in no)
written-memory {P} (Err e) fault is = absurd (let no : ⊥ = cc in no)

pub written-fault : (result : Result ⊤ KvError) → IfErr result (λ e. e ≡ WriteFault) → IfErr result IsWriteOrMemory
written-fault (Ok done) fault = tt
written-fault (Err e) fault = subst IsWriteOrMemory (sym fault) tt
