mod PlainTexts
