-- What a number is read as: the listed code, or the number again where none is listed.
use Rattle.std.specs.Prelude.{◌≡◌, ℕ, List, ◌++◌, codes, Result, MatchResult, Some, None}
use Rattle.std.specs.Fmt.{decimal}
use Rattle.kinds.specs.Codes.{code_of}
use Rattle.kinds.specs.declared.codes.Code.{Code}
use Rattle.kinds.specs.declared.codes.UnlistedCode.{UnlistedCode}

abbrev pub Decodes : ℕ → Result Code UnlistedCode → Type 0
Decodes n r = MatchResult r (λ code. code_of n ≡ Some code) (λ e. (code_of n ≡ None) × (e.0 ≡ n))

abbrev pub unlisted_text : UnlistedCode → List ℕ
unlisted_text e = codes "no code is " ++ decimal e.0
