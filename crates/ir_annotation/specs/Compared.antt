-- What an inequality says behind a word.
use Rattle.syntax.specs.declared.annotation.Inequality.{Inequality}
use Rattle.ir_annotation.specs.declared.keywords.Keyword.{Keyword}
use Rattle.ir_annotation.specs.declared.keywords.Keyword.TheVariants as keyword
use Rattle.ir_annotation.specs.declared.meaning.Annotation.{Annotation}
use Rattle.ir_annotation.specs.declared.meaning.Annotation.TheVariants as annotation

-- what an inequality says behind these words, and behind shows
abbrev pub compared : Keyword → Inequality → Annotation
compared keyword.Requires = annotation.Requires
compared keyword.Ensures = annotation.Ensures
compared keyword.Keeps = annotation.Keeps
compared _ = annotation.Shows
