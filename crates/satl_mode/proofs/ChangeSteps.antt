-- Steps along the pages whose values are taken.
use Rattle.std.proofs.Common.{◌≡◌, ℕ, zero, suc, ◌+◌, ◌≤◌, List, Ok, Err, refl, sym, ◌∙◌, arith}
use Rattle.satl_base.specs.declared.block.Block.{Block}
use Rattle.satl_base.specs.declared.modes.ModeChange.{ModeChange}
use Rattle.satl_cdb.specs.declared.command.Illegal.{Illegal}
use Rattle.satl_mode.specs.declared.page.ModePage.{ModePage}
use Rattle.satl_mode.specs.ModePages.{size_of}
use Rattle.satl_mode.specs.Changes.{page_at, with_page, change_from}

module _ (list : List Block) (length : ℕ) where
  -- so many pages may follow, and the change with them is what all make
  pub record Left (place : ℕ) (change total : ModeChange) : Type 0 where
    pub pages : ℕ
    pub enough : length ≤ place + pages
    pub says : change_from pages list length place change ≡ total

  next_by : (n place : ℕ) (page : ModePage) (change total : ModeChange) → place + size_of page ≤ length → page_at list length place ≡ Ok page → length ≤ place + n → change_from n list length place change ≡ total
      → Left (place + size_of page) (with_page page list place change) total
  unfolding change_from
  next_by zero place page change total fits is e s = absurd (omega (arith, fits, e))
  next_by (suc n) place page change total fits is e s =
      let one : change_from (suc n) list length place change ≡ change_from n list length (place + size_of page) (with_page page list place change) = rw (change_from, is) refl in
      record { pages = n; enough = omega (arith, e); says = sym one ∙ s }

  pub next_page : (place : ℕ) (page : ModePage) (change total : ModeChange) → place + size_of page ≤ length → page_at list length place ≡ Ok page → Left place change total
      → Left (place + size_of page) (with_page page list place change) total
  next_page place page change total fits is left = next_by left.pages place page change total fits is left.enough left.says

  last_by : (n place : ℕ) (refusal : Illegal) (change total : ModeChange) → page_at list length place ≡ Err refusal → change_from n list length place change ≡ total → change ≡ total
  unfolding change_from
  last_by zero place refusal change total is s = s
  last_by (suc n) place refusal change total is s =
      let one : change_from (suc n) list length place change ≡ change = rw (change_from, is) refl in
      sym one ∙ s

  pub no_page : (place : ℕ) (refusal : Illegal) (change total : ModeChange) → page_at list length place ≡ Err refusal → Left place change total → change ≡ total
  no_page place refusal change total is left = last_by left.pages place refusal change total is left.says
