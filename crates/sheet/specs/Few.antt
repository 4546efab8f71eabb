-- What a short list holds.
use Rattle.std.specs.Prelude.{ℕ, List, take}
use Rattle.sheet.specs.declared.few.Few.{Few}

abbrev pub few_items : {T : Type 0} {N : ℕ} → Few T N → List T
few_items f = take f.len f.items
