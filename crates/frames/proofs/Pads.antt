-- What a frame's eight places hold. Assumes nothing.
use Rattle.std.proofs.Common.{◌≡◌, ℕ, ◌-◌, List, ◌++◌, length, take, drop, replicate, sym, refl, ap, ◌∙◌}
use Rattle.std.proofs.lemmas.List.{drop-replicate, take_at}
use Rattle.frames.specs.Bytes.{padded}

module _ (xs ys : List ℕ) (e : ys ≡ xs) where
  -- bytes copied in front of eight zeros are the bytes filled up with zeros
  pub copied : ys ++ drop (length xs) (replicate 8 0) ≡ padded xs
  copied = ap (λ zs. zs ++ drop (length xs) (replicate 8 0)) e ∙ ap (λ zs. xs ++ zs) (drop-replicate (length xs) 8 0)

  -- and the bytes are read back from them
  pub read_back : take (length xs) (ys ++ drop (length xs) (replicate 8 0)) ≡ xs
  read_back = ap (take (length xs)) copied ∙ take_at xs (replicate (8 - length xs) 0) (length xs) refl

  pub filled : padded (take (length xs) (ys ++ drop (length xs) (replicate 8 0))) ≡ ys ++ drop (length xs) (replicate 8 0)
  filled = ap padded read_back ∙ sym copied
