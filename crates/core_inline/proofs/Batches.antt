-- Whether a batch is going on in a world at the start.
use Rattle.core_inline.proofs.Prelude.{IsStart, Run, ap, batch_of, false, is_none, is_open, ℕ, ◌&&◌, ◌∙◌, ◌≡◌}
use Rattle.rank_client.proofs.OpenBatches.{none_opened}

-- no batch is going on in a world at the start
pub start_closed : (limit : ℕ) (run : Run) → IsStart limit run → batch_of run ≡ false
start_closed limit run start =
    ap (λ l. is_open l && is_none run.failed) start.transcript ∙ ap (λ on. on && is_none run.failed) none_opened
