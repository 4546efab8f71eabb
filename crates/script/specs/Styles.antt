-- The words that name a style.
use Rattle.std.specs.Prelude.{ℕ, cond, List, codes, Ok, Err, Result}
use Rattle.std.specs.Str.{bytes_eq}
use Rattle.script.specs.declared.style.Style.{Style}
use Rattle.script.specs.declared.style.Style.TheVariants.{Plain, Explained}
use Rattle.script.specs.declared.style.UnknownStyle.{UnknownStyle}

abbrev pub style_in : List ℕ → Result Style UnknownStyle
style_in w = cond (bytes_eq w (codes "plain")) (Ok Plain) (cond (bytes_eq w (codes "explained")) (Ok Explained) (Err (record {})))
